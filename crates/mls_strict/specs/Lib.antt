pub mod KeyForms
pub mod Certificates
pub mod ExtensionLists
pub mod ExternalSendersInternal
pub mod LeafForms
pub mod ContentForms
pub mod StrictTrees
pub mod StrictTreesInternal
