mod PageFile
