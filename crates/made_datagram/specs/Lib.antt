-- A datagram written from values.
pub mod Making
pub mod PassedValues
pub mod RoundTrip
pub mod Worked
