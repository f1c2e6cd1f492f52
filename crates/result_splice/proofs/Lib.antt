mod Lying
mod Sorting
