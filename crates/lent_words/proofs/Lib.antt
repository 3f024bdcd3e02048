-- Laws of words in lent bytes.
pub mod Words
pub mod RoundTrip
pub mod Records
pub mod Every
pub mod InPlace
pub mod Left
