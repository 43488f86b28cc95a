mod ShortTokens
mod Nodes
mod Heads
mod Parts
mod Heights
mod States
