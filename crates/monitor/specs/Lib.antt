pub mod Monitored
pub mod History
pub mod Standings
pub mod Serves
