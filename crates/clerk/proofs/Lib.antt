pub mod Offers
pub mod Lists
pub mod Column
