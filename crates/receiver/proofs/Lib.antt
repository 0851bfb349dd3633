-- Laws of a call that nothing refuses.
mod Calls
-- Laws of the window of held bytes and the first bytes of a piece.
mod Joining
