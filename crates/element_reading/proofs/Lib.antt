mod Passing
mod Words
