-- Lemmas on squeezed texts. SqueezedReadings.all_read says how both texts are read, and selects_same
-- what C selects. SqueezedTree.unweave takes blank lines from a tree.
mod SqueezedTree
mod SqueezedReadings
