mod Folders
mod Framing
mod Making
mod Numbers
mod Printing
mod Reading
mod Running
