pub mod LayerAnswer
