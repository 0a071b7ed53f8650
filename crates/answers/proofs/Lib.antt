-- A header's numbers over the front of an array.
mod Headers
