mod Drawn
mod DrawnFolder
