-- Laws about the definitions of `utf8`.
mod Library
