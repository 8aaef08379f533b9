pub mod NetconfAttribute
pub mod NetconfHeader
pub mod NetconfMessage
pub mod NsidAttribute
pub mod NsidHeader
pub mod NsidMessage
