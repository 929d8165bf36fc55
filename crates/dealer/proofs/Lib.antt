pub mod Owned
pub mod Remainders
pub mod Places
pub mod Pieces
pub mod Tables
pub mod ByParty
pub mod Dealt
pub mod Shifts
