pub mod FaultLaws
pub mod KeyLists
pub mod SettingsFit
pub mod TableWords
