pub mod Volumes
pub mod Left
pub mod Laws
pub mod PutTogether
