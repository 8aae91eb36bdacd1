mod Saving
mod Packages
