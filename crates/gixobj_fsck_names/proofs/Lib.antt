mod BackslashCounts
mod Either
mod HfsNames
mod NamesByByte
