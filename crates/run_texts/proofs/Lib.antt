mod Escaping
mod Pairing
mod Telling
