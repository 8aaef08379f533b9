mod Places
mod States
mod Texts
