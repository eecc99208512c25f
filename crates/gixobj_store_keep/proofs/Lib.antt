mod ContentReads
mod Contents
mod IdsInOrder
mod Objects
pub mod Trees
