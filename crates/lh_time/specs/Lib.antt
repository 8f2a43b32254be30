pub mod Order
pub mod Due
pub mod Laws
