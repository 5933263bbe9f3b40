mod Alone
pub mod Asking
pub mod ParseRefusals
mod Refused
mod SetRefusals
mod ShiftRefusals
pub mod Silent
pub mod LongLines
