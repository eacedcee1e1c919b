pub mod Mirror
pub mod MirrorNames
