-- What the list holds in which a line's words were written.
mod Written
