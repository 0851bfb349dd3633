-- What a session keeps of the datagrams handed out.
pub mod History
