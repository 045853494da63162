mod Walking
mod Rows
mod CrashRows
mod BackRows
mod BusyRows
mod Following
mod AddRows
