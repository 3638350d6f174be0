pub mod Coins
pub mod Calls
pub mod Promise
pub mod Order
pub mod Values
pub mod Places
