-- Laws about the lists of nodes entered.
mod Listing
mod Trails
mod Steps
mod Parts
mod Downs
