pub mod Spellings
pub mod HostPathNames
pub mod ImagePathNames
pub mod TextSpellings
