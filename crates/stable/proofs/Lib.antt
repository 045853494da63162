mod Left
mod Pages
mod Rest
