mod Alone
mod Toward
