mod Bottoms
mod GivenWalks
mod Peels
mod SearchedBases
mod StoreWalks
