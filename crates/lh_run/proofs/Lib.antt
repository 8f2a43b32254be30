pub mod Faithfully
pub mod Tops
