mod Finishing
mod Fronts
mod Lefts
mod Rests
mod Since
mod Sources
mod Telling
mod Whole
