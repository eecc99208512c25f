mod FieldPositions
mod FirstBytes
mod LastPositions
mod Rows
mod Fields
mod StatusesRead
