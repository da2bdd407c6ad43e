pub mod PlaceOf
