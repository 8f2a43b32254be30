pub mod Lacking
pub mod Flowing
pub mod Asking
pub mod Laws
