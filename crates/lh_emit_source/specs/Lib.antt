pub mod Firsts
pub mod Origins
