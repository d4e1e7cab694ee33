-- Laws about the call of the place.
mod Placing
