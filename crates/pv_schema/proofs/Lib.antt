pub mod MakeOpens
pub mod AllowedValues
pub mod AllowedKeys
pub mod AllowedFields
pub mod AllowedChoices
pub mod AllowedBodies
pub mod Allowing
pub mod Ineffective
