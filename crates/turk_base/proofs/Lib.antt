mod Characters
mod Falling
mod Finding
