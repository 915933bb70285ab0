mod Imports
mod Each
mod Ends
mod Held
mod Lines
mod Unsigned
