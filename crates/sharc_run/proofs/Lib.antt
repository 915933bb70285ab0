mod Imports
mod Firsts
mod OneOrder
mod OneText
mod Pieces
mod Ending
mod Listed
mod Telling
