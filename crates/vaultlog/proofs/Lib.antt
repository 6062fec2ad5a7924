mod Filed
mod Spelt
