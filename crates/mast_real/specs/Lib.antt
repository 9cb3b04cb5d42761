pub mod FolderFile
