-- How the chains are decided.
pub mod Claim
