pub mod Lists
pub mod LinkLaws
pub mod ServerLaws
pub mod LogLaws
pub mod WholePlay
pub mod MixedPlay
pub mod EachPlay
pub mod SharedPlay
