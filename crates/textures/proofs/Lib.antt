-- Laws about the texture section.
pub mod Tables
mod Fills
pub mod Marks
mod Sieves
mod Steps
mod Alone
mod Sequence
pub mod Firsts
mod Frames
mod Numbers
pub mod Leads
mod Places
pub mod Accesses
mod Trials
pub mod Scans
