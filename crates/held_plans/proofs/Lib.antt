mod Deciding
mod Places
