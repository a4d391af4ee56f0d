mod FilesOf
mod RaisedCounter
mod WithFile
mod Walks
pub mod CallLaws
