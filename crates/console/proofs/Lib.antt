mod Counting
mod Marks
mod Reading
