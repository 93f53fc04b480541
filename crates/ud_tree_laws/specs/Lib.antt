pub mod SqueezedSelection
