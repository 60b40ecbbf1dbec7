-- What a C caller is returned, and what each call leaves in the lent places.
pub mod FloatBlock
pub mod Floated
pub mod Found
pub mod Private
