pub mod Laws
pub mod TextLaws
pub mod ChangeLaws
