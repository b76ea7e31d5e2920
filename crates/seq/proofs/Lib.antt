pub mod Every
pub mod Sum
pub mod Rising
pub mod Search
pub mod Lists
pub mod Pigeon
